-- The alternating count of a complex, and what keeps it.
pub mod Sets
pub mod Lists
pub mod Sums
pub mod Tets
pub mod Same
pub mod Collapse
pub mod Flip
pub mod Renumber
pub mod Tests
pub mod Steps
pub mod Listed
pub mod Examples
