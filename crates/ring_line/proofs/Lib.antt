pub mod Cells
pub mod Clear
pub mod Walking
