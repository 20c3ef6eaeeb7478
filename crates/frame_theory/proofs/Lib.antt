pub mod Words
pub mod Always
pub mod Frames
