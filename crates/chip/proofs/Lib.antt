pub mod Each
pub mod Ports
pub mod Parts
pub mod Steps
pub mod Histories
