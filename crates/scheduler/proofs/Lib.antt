pub mod Waiting
pub mod Scheduling
