pub mod Few
pub mod Middle
pub mod Padded
pub mod Promise
