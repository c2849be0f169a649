-- What commands answer, and which command words name; that what is printed of
-- journals is told, and that it is true.
mod Alone
mod Answering
mod Commands
mod Lines
mod Lists
mod Outcomes
mod Programs
mod Reading
mod Refused
mod Telling
mod Viewing
