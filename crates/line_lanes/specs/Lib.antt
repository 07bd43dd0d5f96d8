pub mod Mask
pub mod Line
pub mod Lane
