-- What `project_candidate`'s code computes step by step is what specs/Project.antt says: floats, rows, the matrix and its solution, steps.
pub mod Floats
pub mod Lists
pub mod Elimination
pub mod Window
pub mod Displacement
pub mod Rows
pub mod Arrays
pub mod Columns
pub mod Steps
