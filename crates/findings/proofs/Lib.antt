pub mod Outcome
pub mod Records
