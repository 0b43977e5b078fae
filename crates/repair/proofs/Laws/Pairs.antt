-- The pairs of a direction: laws of src/improve/partners.rt.
pub mod Bits
pub mod Rows
pub mod Partners
pub mod Walks
pub mod Pairing
pub mod Found
pub mod Apart
