pub mod DiskOfFiles
pub mod PrivateContracts
