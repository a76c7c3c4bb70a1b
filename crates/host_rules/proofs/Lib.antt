pub mod Actions
pub mod Streams
pub mod Cases
