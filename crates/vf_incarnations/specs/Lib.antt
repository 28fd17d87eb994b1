pub mod Incarnations
pub mod Messages
pub mod Laws
pub mod Served
pub mod InARow
pub mod Calls
pub mod Recovery
pub mod Examples
