pub mod SameAnswer
pub mod NewAnswer
pub mod Theorems
