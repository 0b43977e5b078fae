-- Laws by subject.
pub mod Float
pub mod Root
pub mod Score
pub mod Box
pub mod Rank
pub mod Word
