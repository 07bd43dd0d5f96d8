pub mod Accounts
pub mod Paid
pub mod Desks
pub mod NewDesks
pub mod Moves
pub mod Calls
pub mod Settled
