pub mod Counter
pub mod Mailbox
pub mod Seats
