-- Laws of groups.
pub mod Images
pub mod Ranks
pub mod Runs
pub mod Area
