pub mod Decoding
pub mod Search
