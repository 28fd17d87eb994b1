mod Drawn
mod Going
mod Hearing
mod Saying
mod Making
mod Ends
