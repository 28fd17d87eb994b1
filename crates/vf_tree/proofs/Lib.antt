pub mod Acts
pub mod EqualUnits
pub mod Lists
pub mod Sizes
