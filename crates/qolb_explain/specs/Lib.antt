pub mod Complaints
pub mod Notes
