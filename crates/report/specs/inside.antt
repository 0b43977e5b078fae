-- Definitions for contracts of private functions, for those that only a crate above calls, and for proofs. Nothing here has to be believed:
-- laws tie it to the definitions beside this folder.
pub mod Buffers
pub mod Error
pub mod Meshes
pub mod Put
pub mod Ran
pub mod Rows
pub mod Written
