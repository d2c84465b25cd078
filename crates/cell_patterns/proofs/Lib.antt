pub mod Bounds
pub mod Runs
pub mod Syncs
pub mod Levels
pub mod Violations
pub mod LongRuns
pub mod Rounds
