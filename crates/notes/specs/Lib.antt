pub mod Notes
pub mod Logs
