pub mod Continuation
pub mod Ends
pub mod Frames
pub mod Places
pub mod Progress
pub mod Scanned
pub mod Tells
