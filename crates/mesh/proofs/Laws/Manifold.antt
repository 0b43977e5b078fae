-- Laws of the test for nonmanifold vertices.
pub mod Fill
pub mod Kept
pub mod Runs
pub mod RowRuns
pub mod Corners
pub mod Growth
pub mod Steps
pub mod Cycles
pub mod Whole
