pub mod Limits
pub mod Steps
pub mod Settled
pub mod Streams
