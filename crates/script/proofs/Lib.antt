pub mod Laws
pub mod Swapped
