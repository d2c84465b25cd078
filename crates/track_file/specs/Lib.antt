pub mod TrackFile
pub mod Portions
