pub mod Checks
pub mod Laws
pub mod Lending
pub mod Transfer
