pub mod Judging
pub mod Entries
pub mod Sums
pub mod Laws
