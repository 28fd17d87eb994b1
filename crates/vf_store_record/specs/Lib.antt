pub mod Formats
pub mod Fields
pub mod Entries
pub mod Records
pub mod Reading
pub mod Writing
