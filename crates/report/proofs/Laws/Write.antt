-- The writing of block files, that what is written is read back, and that what is read has one file, by subject.
pub mod Words
pub mod Puts
pub mod Sizes
pub mod Files
pub mod Holds
pub mod Rows
pub mod Header
pub mod Spare
pub mod Numbers
pub mod Back
pub mod Again
pub mod Places
pub mod Held
pub mod Whole
