pub mod Cuts
pub mod Entries
pub mod Recovered
