pub mod EqualAttributes
mod Refusals
mod Sets
