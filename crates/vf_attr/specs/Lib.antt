pub mod Access
pub mod Attributes
pub mod Change
