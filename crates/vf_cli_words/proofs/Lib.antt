mod Numbers
mod GivenAfter
pub mod Values
