pub mod Checks
pub mod DocumentTypes
pub mod Units
