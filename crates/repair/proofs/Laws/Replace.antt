-- A vertex goes into another in the work slice: the slots, the index, the flags, and all that the slice stands for.
pub mod Slots
pub mod Writes
pub mod Listed
pub mod Star
pub mod Index
pub mod State
pub mod Pairs
pub mod Turns
