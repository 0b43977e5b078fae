-- The laws of the live elements that have two or three vertices.
pub mod Walk
pub mod Found
