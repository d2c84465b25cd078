pub mod Values
pub mod PrivateContracts
