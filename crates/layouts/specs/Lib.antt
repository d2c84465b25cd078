pub mod Layouts
pub mod PrivateContracts
