pub mod Returns
pub mod Laws
