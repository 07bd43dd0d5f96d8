pub mod NewPorts
pub mod Each
pub mod HandedOver
