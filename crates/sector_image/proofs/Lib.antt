pub mod Kept
pub mod Conditions
pub mod Parts
pub mod Calls
pub mod Laws
