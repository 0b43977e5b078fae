-- The laws of stars about several vertices and of elements copied.
pub mod Members
pub mod Answer
pub mod Copies
pub mod Loops
pub mod Calls
