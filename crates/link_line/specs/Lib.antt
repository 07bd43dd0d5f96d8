pub mod Layout
pub mod Ghost
pub mod BetweenCalls
pub mod Links
pub mod Steps
pub mod Releases
pub mod Calls
pub mod Laws
