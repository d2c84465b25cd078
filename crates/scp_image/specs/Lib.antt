pub mod Header
pub mod Entries
pub mod CheckSum
pub mod Laws
