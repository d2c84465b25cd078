pub mod CellsAndBytes
pub mod PrivateContracts
