pub mod Meanings
pub mod Starts
