pub mod Alone
pub mod Conversation
pub mod Dialogue
pub mod Hex
pub mod Lines
pub mod Reader
