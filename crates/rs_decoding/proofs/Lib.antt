pub mod Bytes
pub mod Kernel
pub mod Peel
pub mod Roots
pub mod Correct
pub mod Pivots
pub mod Steps
pub mod Reduce
pub mod ErrorSteps
mod Products
pub mod Known
