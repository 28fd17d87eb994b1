pub mod Ends
pub mod Givens
pub mod Names
pub mod Rooms
