pub mod Acquiring
pub mod Places
pub mod ViewAndTurn
pub mod Meetings
pub mod Deadlines
