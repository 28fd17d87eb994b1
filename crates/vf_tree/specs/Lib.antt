pub mod Actions
pub mod Acts
pub mod Contexts
pub mod FileTree
pub mod Identities
pub mod Same
pub mod TreeRefusal
