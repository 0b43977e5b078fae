-- Laws of this crate's definitions.
pub mod Laws
