-- Definitions, a file for each subject. Those of the files here are to be believed: what the papers say, which public contracts cite.
-- `Before` has what a law alone is stated with, `inside` those for contracts of private functions and for proofs.
pub mod Format
pub mod Bytes
pub mod Block
pub mod Table
pub mod Run
pub mod Report
pub mod Before
pub mod Write
pub mod inside
