pub mod Shapes
pub mod Ahead
