pub mod Allowed
pub mod Forcing
pub mod InTurn
pub mod Replayed
pub mod StepsRun
pub mod Tallying
