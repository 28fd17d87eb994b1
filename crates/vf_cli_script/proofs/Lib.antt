mod Digits
mod Split
mod Messages
mod Feeds
mod Arriving
mod Tellings
