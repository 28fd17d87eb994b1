pub mod Bases
pub mod Lines
pub mod Calling
pub mod Represents
