-- What holds of an f64's bits.
pub mod Order
pub mod Words
