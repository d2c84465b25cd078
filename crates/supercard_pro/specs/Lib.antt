pub mod TrackBlock
