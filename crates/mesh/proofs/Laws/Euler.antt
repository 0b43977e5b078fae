-- Laws of the counts of simplices.
pub mod Simplices
pub mod Faces
pub mod Areas
