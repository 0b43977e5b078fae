-- The boundary of a list of elements: what it means, and that sorting the face rows and gathering the single faces gives it.
pub mod Order
pub mod Same
pub mod Kinds
pub mod Runs
pub mod Faces
pub mod Rising
pub mod Scan
pub mod Meaning
pub mod Elements
pub mod Writes
pub mod Reads
pub mod Listing
pub mod Ordering
pub mod Sorted
pub mod Gather
pub mod Whole
pub mod Called
