-- Definitions for the private functions of src/smooth/ and for proofs.
pub mod Candidates
pub mod Site
