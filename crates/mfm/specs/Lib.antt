pub mod Coding
pub mod Table
pub mod PrivateContracts
pub mod Calls
