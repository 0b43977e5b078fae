-- The laws of `sqrt`, by its three parts, and the arithmetic behind the functions of src/root.rt.
pub mod Special
pub mod Whole
pub mod Rounding
pub mod Together
pub mod Digits
pub mod Nearest
pub mod Pattern
pub mod Parts
pub mod Value
pub mod Settle
pub mod Correct
