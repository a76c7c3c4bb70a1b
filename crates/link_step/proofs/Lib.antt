pub mod Steps
pub mod Settled
