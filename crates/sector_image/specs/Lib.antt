pub mod Image
pub mod PrivateContracts
