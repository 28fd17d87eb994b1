pub mod Agreeing
mod Apdus
pub mod Chosen
pub mod Ends
pub mod HeldMeant
mod InTurn
pub mod Least
pub mod LeastChosen
pub mod LeastHeld
pub mod LeastOrdered
pub mod LeastTypes
mod Locations
mod Numbers
pub mod Ordered
mod Readings
pub mod SegmentTurns
pub mod Spelled
mod Standing
mod Stopping
mod Turns
pub mod TypesMeant
pub mod ValuesMeant
mod Walks
