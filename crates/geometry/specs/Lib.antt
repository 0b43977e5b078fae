-- Definitions, a file for each subject. Those of the files here are to be believed: what the papers say, which public contracts cite.
-- `inside` has those for contracts of private functions and for proofs.
pub mod Float
pub mod Literals
pub mod Units
pub mod Root
pub mod Point
pub mod Score
pub mod Bounds
pub mod Rank
pub mod Field
pub mod Word
pub mod inside
