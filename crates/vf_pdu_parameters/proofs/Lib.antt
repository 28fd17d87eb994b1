pub mod BackParameters
pub mod Dates
pub mod ItemLists
pub mod ListsWritten
pub mod ReadingSteps
pub mod WholeParameters
pub mod WritingSteps
pub mod Years
