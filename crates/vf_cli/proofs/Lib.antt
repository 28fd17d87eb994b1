mod Completes
mod InRange
mod KeptInRange
