pub mod Numbers
pub mod SlotLayout
pub mod Emptying
pub mod Cells
pub mod Stepping
pub mod Walking
