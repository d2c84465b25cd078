pub mod StandardTrack
pub mod Claims
