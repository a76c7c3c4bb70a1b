pub mod Links
pub mod Field
pub mod Streams
