pub mod Turns
pub mod Books
