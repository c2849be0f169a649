-- Deliveries in their order, lines in turn, and what is true of what they print.
mod Pairs
mod Goes
mod Awaiting
mod Attempting
mod Spreading
mod Playing
mod Founders
mod Ids
mod PairsTold
mod Performing
mod Storing
mod Leading
mod Counting
mod Recording
mod Truths
