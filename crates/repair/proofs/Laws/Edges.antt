-- The laws of the edges of a round.
pub mod Rows
pub mod Whole
