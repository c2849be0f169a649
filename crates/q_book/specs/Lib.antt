-- Books: what each call answers and does, and that a book is the replay of its journal.
pub mod State
pub mod Books
pub mod Called
pub mod Replays
pub mod Sends
pub mod Noted
pub mod Sample
