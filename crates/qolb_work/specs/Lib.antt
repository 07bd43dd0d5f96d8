pub mod Jobs
pub mod JustOpened
pub mod Workers
pub mod BoardRuns
pub mod BoardWork
pub mod Reports
pub mod BankRuns
pub mod BankWork
