pub mod Ranges
pub mod Page
pub mod Parts
pub mod PrivateContracts
