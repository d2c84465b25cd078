pub mod TrackOfFile
