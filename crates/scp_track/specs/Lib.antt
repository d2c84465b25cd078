pub mod Arguments
pub mod InputRead
pub mod InputListing
