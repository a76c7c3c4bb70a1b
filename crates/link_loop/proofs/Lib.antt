pub mod Chains
pub mod Data
pub mod Notes
pub mod Plains
pub mod Replies
pub mod Loads
