pub mod Carried
pub mod CarriedCode
pub mod Conclusions
pub mod Laws
pub mod PlainData
pub mod Primitives
pub mod Sizes
pub mod Written
