pub mod Steps
pub mod Balance
pub mod Writing
pub mod Turns
pub mod Boards
pub mod Encoding
pub mod Answering
pub mod Refusing
