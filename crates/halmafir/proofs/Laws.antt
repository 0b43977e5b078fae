-- Laws by subject.
pub mod Called
pub mod Unknown
