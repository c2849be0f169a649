-- What is said at the console, how a run closes, and how one is told that does not begin; a book that is a node's own,
-- grows by requests and settles, and what is said and asked of it; texts that are refused.
mod Conversing
mod Closing
mod Refusing
mod Owned
mod Replied
mod Settled
mod Told
mod AsksAgain
mod Waits
mod Refused
mod Ready
