-- What the functions for other programs read from their arrays, and what a caller gets.
pub mod Arrays
pub mod Called
