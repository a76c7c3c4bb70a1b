pub mod Readers
pub mod Field
pub mod Streams
