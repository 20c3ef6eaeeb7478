pub mod Ones
pub mod Encoding
pub mod Butterfly
pub mod Pairs
pub mod Forward
pub mod Reading
pub mod Decoding
pub mod Greatest
