-- The theorems that must be proved for every queue algorithm, here for the link line.
pub mod PortModel
pub mod Histories
pub mod Nodes
pub mod Seats
pub mod Meets
pub mod Lasting
