pub mod Ending
pub mod Accepted
pub mod Reading
pub mod Whole
