pub mod Starting
pub mod Cutting
pub mod Writing
pub mod Conversation
pub mod Transaction
pub mod Connecting
