-- Numbers marked by bits, and read back in rising order.
pub mod Bits
pub mod Marking
pub mod Reading
pub mod Whole
