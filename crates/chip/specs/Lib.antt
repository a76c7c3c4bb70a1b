pub mod Each
pub mod Record
pub mod Promise
pub mod Steps
pub mod Stepped
