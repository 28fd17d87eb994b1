pub mod Clash
pub mod Counts
pub mod Holders
pub mod Place
pub mod Shown
pub mod Table
