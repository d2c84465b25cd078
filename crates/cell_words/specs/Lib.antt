pub mod Words
pub mod Tests
pub mod PrivateContracts
