-- What `improve` keeps: demand 3 for one pass, first on values, then for a call on buffers. `Calls` has the induction over lists of calls.
pub mod Single
pub mod Collapse
pub mod Edges
pub mod Passes
pub mod Uses
pub mod Scores
pub mod Points
pub mod Rounds
pub mod Keeps
pub mod Counts
pub mod Intake
pub mod Buffers
pub mod Calls
pub mod Closed
pub mod Short
