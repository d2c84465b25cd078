pub mod Revolutions
pub mod Block
pub mod Laws
pub mod Examples
