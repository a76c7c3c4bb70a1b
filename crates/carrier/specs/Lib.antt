pub mod Carriers
