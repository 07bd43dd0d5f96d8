pub mod Looks
pub mod AsBox
pub mod Handles
pub mod Filling
pub mod Opened
pub mod Telling
