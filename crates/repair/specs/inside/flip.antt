-- Definitions for the private functions of src/flip/ and for proofs.
pub mod Prepare
pub mod ThreeToTwo
pub mod Finish
pub mod Fitting
pub mod Layout
pub mod Replace
pub mod Tries
