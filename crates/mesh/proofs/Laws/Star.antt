-- The laws of stars: what is written where, walks, chains, and that the index finds what the scan finds.
pub mod Written
pub mod Walks
pub mod Layout
pub mod Chains
pub mod Hanging
pub mod Joining
pub mod Distinct
pub mod Numbers
pub mod Scan
pub mod Found
pub mod Turns
pub mod Singles
pub mod Gathering
pub mod Answers
pub mod Calls
