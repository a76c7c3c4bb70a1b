pub mod Bytes
pub mod Going
pub mod Laws
pub mod Padded
pub mod Wrote
