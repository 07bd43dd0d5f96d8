pub mod Answered
pub mod CommandLines
