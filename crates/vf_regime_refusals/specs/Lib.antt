pub mod Asked
pub mod Creating
