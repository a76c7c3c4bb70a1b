pub mod Ahead
pub mod Turned
