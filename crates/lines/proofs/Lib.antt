pub mod Writing
pub mod Steps
pub mod Digits
pub mod Lengths
pub mod Names
