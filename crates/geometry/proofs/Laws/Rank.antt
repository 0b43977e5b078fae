-- What holds of ranks.
pub mod Away
pub mod Share
pub mod Monotone
pub mod Outside
pub mod Ranks
