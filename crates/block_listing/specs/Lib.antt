pub mod BlockListing
