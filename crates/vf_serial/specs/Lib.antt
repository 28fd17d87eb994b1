pub mod FileModel
pub mod Isolating
pub mod Laws
pub mod Moves
pub mod RowsOfAppends
pub mod RowsOfRandom
pub mod Schedule
pub mod Uses
