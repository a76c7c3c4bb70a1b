pub mod Writers
pub mod Done
