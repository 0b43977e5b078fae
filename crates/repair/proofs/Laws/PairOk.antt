-- The laws of a pair's tests.
pub mod Scan
pub mod Slots
pub mod Gathered
pub mod Part
pub mod Whole
