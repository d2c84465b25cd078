pub mod Some
pub mod Chunks
pub mod Sums
pub mod Branches
