pub mod Marks
pub mod Checks
pub mod Places
pub mod MarkBytes
pub mod Kept
pub mod Listing
pub mod Records
