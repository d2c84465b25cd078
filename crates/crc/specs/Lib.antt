pub mod CheckWord
pub mod PrivateContracts
