-- Definitions for the private functions of src/improve/ and for proofs.
pub mod Renumber
pub mod Fitting
pub mod PairTest
pub mod Partners
pub mod Collapse
pub mod Round
