pub mod Calls
pub mod Outcome
pub mod StepRuns
pub mod Tallies
