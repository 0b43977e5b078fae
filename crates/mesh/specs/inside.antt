-- Definitions for contracts of private functions, for those that only a crate above calls, and for proofs. Nothing here has to be believed:
-- laws tie it to the definitions beside this folder.
pub mod About
pub mod Euler
pub mod Faces
pub mod FeatureByMasks
pub mod LinkRows
pub mod LinkAreas
pub mod LinkTable
pub mod List
pub mod Marks
pub mod Moves
pub mod Rows
pub mod Runs
pub mod RowWidths
pub mod Shared
pub mod Short
pub mod Star
pub mod With
pub mod Complex
pub mod Group
pub mod Intake
pub mod Manifold
pub mod Sort
pub mod Surface
