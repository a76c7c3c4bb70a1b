pub mod Sessions
pub mod Trips
pub mod Hosts
pub mod Calls
pub mod Parallel
pub mod Recordings
