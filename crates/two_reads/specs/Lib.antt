pub mod Comparison
pub mod GoodRead
