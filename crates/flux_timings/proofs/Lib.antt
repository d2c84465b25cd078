pub mod Timing
pub mod FirstOut
pub mod Judging
