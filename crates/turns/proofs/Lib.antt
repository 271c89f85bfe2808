pub mod Taking
pub mod Telling
pub mod Targets
