-- The end of `improve` on its area and buffers: numbering by first use, the boundary and its test, the new mesh in the buffers.
pub mod First
pub mod Numbering
pub mod Elements
pub mod Surface
pub mod Ended
pub mod Moved
pub mod Committed
pub mod Whole
