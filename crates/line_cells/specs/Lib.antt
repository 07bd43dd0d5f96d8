pub mod Counting
pub mod Layout
pub mod SlotLayout
pub mod BetweenCalls
pub mod Array
pub mod Steps
pub mod Releases
