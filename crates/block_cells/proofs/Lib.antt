pub mod BlockCells
pub mod Examples
