pub mod FrameLemmas
pub mod ReadLemmas
pub mod StepLemmas
pub mod TurnLemmas
pub mod ValueLemmas
pub mod ReadingLemmas
