-- Laws of `smooth` in its buffers: groups in rows, elements listed, points put, the best candidate, and the pass.
pub mod Scan
pub mod Moved
pub mod Best
pub mod Near
pub mod Work
pub mod Start
pub mod About
pub mod Turn
pub mod Groups
pub mod Prepared
pub mod Pass
