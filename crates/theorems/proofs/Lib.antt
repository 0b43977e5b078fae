-- The proofs of the theorems in specs/, each under the name of its statement, and the laws that they rest on: of a collapse and of a flip.
pub mod Collapse
pub mod ImproveRefusals
pub mod Flip
pub mod FlipRefusals
pub mod Manifold
