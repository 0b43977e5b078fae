-- What a flip does to the triangles, for the theorem about the numbers that `flip` may end with.
pub mod Stars
pub mod Five
pub mod Turns
pub mod Keys
