pub mod InputListing
