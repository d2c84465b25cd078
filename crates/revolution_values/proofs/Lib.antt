pub mod Passing
pub mod NoZeros
