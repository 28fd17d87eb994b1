pub mod Speaking
pub mod Hearing
pub mod Elements
