pub mod Turns
pub mod Plain
