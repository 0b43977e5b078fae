-- Definitions, a file for each subject. Those of the files here are to be believed: what the papers say, which public contracts cite.
-- `inside` has those for contracts of private functions and for proofs.
pub mod Mesh
pub mod Project
pub mod Improve
pub mod Smooth
pub mod Flip
pub mod Step
pub mod Answer
pub mod Wholeness
pub mod inside
