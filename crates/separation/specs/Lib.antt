pub mod Separation
pub mod Demand3
