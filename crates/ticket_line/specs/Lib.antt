pub mod Layout
pub mod Slots
pub mod Ticket
pub mod Steps
pub mod Laws
pub mod Calls
