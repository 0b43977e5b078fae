-- What a collapse gains: elements measured, images judged, and the elements about the pairs.
pub mod Tallies
pub mod Judging
pub mod Around
