pub mod Reading
pub mod TrackFiles
pub mod FluxFiles
