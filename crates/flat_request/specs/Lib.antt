pub mod Feeds
pub mod Field
pub mod Streams
