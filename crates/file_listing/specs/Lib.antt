pub mod ListingOfFile
