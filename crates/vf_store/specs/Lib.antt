pub mod Represented
pub mod StoreState
pub mod Commit
pub mod Counts
pub mod Built
pub mod Answers
