pub mod Bilinear
pub mod Basis
pub mod Table
pub mod Ring
pub mod Bytes
pub mod Rules
