pub mod Words
pub mod Statements
pub mod Inputs
pub mod Scripts
pub mod Readings
