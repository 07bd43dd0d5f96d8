pub mod Rounds
pub mod Acquiring
pub mod Places
pub mod Joined
