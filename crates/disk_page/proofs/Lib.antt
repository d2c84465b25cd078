pub mod Steps
pub mod Lines
pub mod Tracks
pub mod Written
pub mod Calls
pub mod Parts
