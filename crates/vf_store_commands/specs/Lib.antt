pub mod ErrorLines
pub mod UserLines
pub mod Reading
pub mod Making
pub mod Listing
pub mod Dockets
pub mod Dropping
