pub mod Layout
pub mod Ring
pub mod Steps
pub mod Laws
pub mod Calls
