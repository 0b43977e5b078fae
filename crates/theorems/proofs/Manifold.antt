-- The test for nonmanifold vertices says what it should.
pub mod Counts
pub mod Corners
pub mod Ends
pub mod Reach
pub mod Links
pub mod Edges
pub mod Whole
pub mod Cycles
pub mod Boundary
pub mod Examples
