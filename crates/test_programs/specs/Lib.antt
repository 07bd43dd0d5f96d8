pub mod Ports
pub mod HandingOver
