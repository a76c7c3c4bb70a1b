pub mod Links
pub mod Runs
pub mod Field
pub mod Streams
