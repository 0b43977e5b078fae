-- Laws of the listings.
pub mod Stack
pub mod Push
pub mod Bad
pub mod Rows
pub mod Whole
pub mod Meaning
