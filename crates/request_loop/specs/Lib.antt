pub mod Feed
pub mod Pass
