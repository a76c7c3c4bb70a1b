pub mod Feeds
pub mod Plains
