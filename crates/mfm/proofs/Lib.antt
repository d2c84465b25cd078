pub mod Cells
pub mod Coder
pub mod ByTable
pub mod Decoder
pub mod RoundTrip
pub mod Calls
pub mod Gathering
