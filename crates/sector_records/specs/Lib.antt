pub mod Marks
pub mod Maps
pub mod Sectors
pub mod PrivateContracts
