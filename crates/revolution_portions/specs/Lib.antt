pub mod Timings
pub mod Portions
