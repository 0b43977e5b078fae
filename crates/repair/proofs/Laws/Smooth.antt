-- What `smooth` keeps of a mesh: elements, determinants above 0, and the lowest score.
pub mod Scores
pub mod Sizes
pub mod Placed
pub mod Group
pub mod Pass
pub mod Count
