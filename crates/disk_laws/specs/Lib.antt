pub mod Once
pub mod Order
pub mod LastLine
pub mod Library
