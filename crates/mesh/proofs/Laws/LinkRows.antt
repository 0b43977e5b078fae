-- The link tests of an edge by sorted rows.
pub mod Marks
pub mod Meet
pub mod Elements
pub mod Fewer
pub mod Bits
pub mod Areas
pub mod Table
pub mod Faces
pub mod Boundary
pub mod Self
pub mod Features
pub mod Keys
pub mod Alone
pub mod Whole
