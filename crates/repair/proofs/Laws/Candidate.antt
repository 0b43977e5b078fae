-- Laws of the candidates of `smooth`.
pub mod Chosen
pub mod Mean
pub mod Numbered
pub mod Tests
