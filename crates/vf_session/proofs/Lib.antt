pub mod Follows
pub mod GrowLemmas
pub mod TraceLemmas
pub mod SentLemmas
pub mod RoomLemmas
pub mod AllowedLemmas
pub mod TakeLemmas
pub mod MutualLemmas
