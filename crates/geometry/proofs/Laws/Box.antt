-- What holds of the box's bits.
pub mod Cap
pub mod Periodic
