pub mod WakeSteps
pub mod Wakes
pub mod Turns
pub mod Found
pub mod Spans
pub mod Timeouts
pub mod Closing
