mod TopLemmas
mod LineLemmas
mod PrintedLemmas
mod ScanLemmas
mod StreamLemmas
mod TakenLemmas
mod ChangeLemmas
mod ContinuesLemmas
mod ReceivedLemmas
mod ReadingLemmas
mod TurnLemmas
mod MessageLemmas
mod HeaderLemmas
pub mod HexLemmas
pub mod HexLineLemmas
pub mod HexTable
pub mod RunLemmas
pub mod BlockLemmas
pub mod InputLemmas
pub mod ReaderLemmas
