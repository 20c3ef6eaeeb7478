mod Parts
pub mod Small
