-- Lemmas on calls that may refuse, on what lists have, and on trees as maps.
pub mod Calls
pub mod Lists
pub mod Appended
pub mod Tests
pub mod Maps
