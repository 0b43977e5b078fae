-- What the link tests of an edge collapse mean.
pub mod Members
pub mod Simplices
pub mod Links
pub mod Interior
pub mod Keys
pub mod Boundary
pub mod Together
pub mod Features
pub mod Order
pub mod Labels
pub mod Masks
pub mod Closed
