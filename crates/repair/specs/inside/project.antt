-- Definitions for the private functions of src/project/ and for proofs.
pub mod Solve
