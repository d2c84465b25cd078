pub mod OldListing
pub mod Claims
