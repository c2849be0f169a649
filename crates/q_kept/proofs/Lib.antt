-- What stands in a file after writes of a journal, and how books grow; letters, what goes again, and settling.
mod Parts
mod GrownJournals
mod Recorded
mod Letters
mod Targets
mod Each
mod Gifts
mod Growing
mod Settling
