pub mod Bytes
pub mod Places
pub mod Slotted
pub mod Copying
pub mod Heeding
