pub mod Words
pub mod Ranges
pub mod Loading
pub mod Tests
