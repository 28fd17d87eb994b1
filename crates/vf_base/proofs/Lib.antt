pub mod CalendarLemmas
pub mod LinkLemmas
pub mod ListLemmas
pub mod SliceLemmas
pub mod StreamLemmas
