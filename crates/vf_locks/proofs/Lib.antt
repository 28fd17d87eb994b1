mod Order
mod Ordered
mod Counted
mod Searched
mod Unshown
mod Forgotten
mod Entries
mod Told
