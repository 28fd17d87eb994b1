mod Runs
mod Numbers
mod Parts
mod Areas
pub mod Lengths
mod Images
pub mod Planned
mod Counts
mod Appending
mod Preparing
mod Switching
mod Creating
mod Gates
mod Held
mod Prefixes
mod Looks
mod Heads
mod Opening
mod Takings
mod Ending
