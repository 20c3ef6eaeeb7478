pub mod Field
pub mod Laws
