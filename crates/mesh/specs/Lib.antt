-- Definitions, a file for each subject. Those of the files here are to be believed: what the papers say, which public contracts cite.
-- `inside` has those for contracts of private functions and for proofs.
pub mod Words
pub mod Sort
pub mod Element
pub mod Complex
pub mod Measure
pub mod Tests
pub mod Sets
pub mod Boundary
pub mod Refusal
pub mod Surface
pub mod Link
pub mod Feature
pub mod Manifold
pub mod Group
pub mod Intake
pub mod inside
