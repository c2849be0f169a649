-- Client requests to a book.
pub mod Requests
pub mod Replies
pub mod Serves
