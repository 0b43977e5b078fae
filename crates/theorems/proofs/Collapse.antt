-- A collapse keeps the elements in one orientation: each oriented triangle is the face of one element at most.
pub mod Turns
pub mod Faces
pub mod Before
pub mod Oriented
pub mod Kept
