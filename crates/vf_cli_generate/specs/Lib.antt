pub mod Drawing
pub mod Requests
pub mod Generating
