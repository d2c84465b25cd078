pub mod Levels
