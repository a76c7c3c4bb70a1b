pub mod Limits
pub mod Begins
