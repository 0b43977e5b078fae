-- Laws of the short edges.
pub mod Lengths
pub mod Order
pub mod Push
pub mod Loops
pub mod Whole
