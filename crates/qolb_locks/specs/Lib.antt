pub mod Calls
pub mod Held
pub mod Layouts
pub mod Meets
pub mod Shared
pub mod Tickets
pub mod Exports
