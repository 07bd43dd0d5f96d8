pub mod Chains
pub mod Fronts
pub mod Adding
