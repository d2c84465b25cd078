pub mod Judging
pub mod Timings
pub mod History
pub mod Taking
pub mod Laws
