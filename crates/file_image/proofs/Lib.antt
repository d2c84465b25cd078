pub mod Whole
pub mod Length
