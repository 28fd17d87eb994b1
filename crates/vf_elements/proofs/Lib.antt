pub mod Descriptors
pub mod Lengths
pub mod OneMeaning
pub mod Segments
pub mod Within
pub mod Written
