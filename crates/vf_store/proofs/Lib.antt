pub mod Making
pub mod Runs
pub mod Causes
pub mod Kept
pub mod Committing
