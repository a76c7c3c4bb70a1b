pub mod Layer
pub mod Put
pub mod Units
