-- Laws of intake.
pub mod Reads
pub mod Every
pub mod Chains
pub mod Room
pub mod Twice
pub mod Different
pub mod Area
pub mod Numbered
pub mod Table
pub mod Last
