-- Laws of the shared faces.
pub mod Rows
pub mod Order
pub mod Keys
pub mod Runs
pub mod Loops
pub mod Scan
pub mod Whole
pub mod Meaning
