mod Grammar
mod Lists
mod Marked
mod Parts
mod Readings
mod Measured
mod OneValue
mod PlainStrings
pub mod Recovered
pub mod Room
mod TypesRead
mod WrittenTrees
