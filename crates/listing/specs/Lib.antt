pub mod Listing
pub mod PrivateContracts
