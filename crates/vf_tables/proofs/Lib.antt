pub mod Placed
pub mod Sizes
mod Ranges
mod Snapshots
mod Shown
mod Distinct
mod Made
mod Stays
