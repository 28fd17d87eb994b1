pub mod Patch
pub mod Images
pub mod Elapse
pub mod Calls
pub mod Forms
mod Settled
mod Judged
pub mod Runs
pub mod CallCounts
pub mod Rows
pub mod Noted
pub mod Kept
pub mod Stops
pub mod Joins
