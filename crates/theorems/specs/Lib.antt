pub mod Table
pub mod ImproveRefusals
pub mod FlipRefusals
pub mod Manifold
