-- What holds of the determinant, the sum of squared edges and the score.
pub mod Near
pub mod Symmetry
pub mod Quality
pub mod Finite
pub mod Constant
