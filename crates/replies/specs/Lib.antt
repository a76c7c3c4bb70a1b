pub mod Sessions
pub mod Takes
pub mod Sends
