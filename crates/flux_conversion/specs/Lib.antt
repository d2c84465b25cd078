pub mod Conversion
pub mod Demand3
pub mod Portions
pub mod PrivateContracts
