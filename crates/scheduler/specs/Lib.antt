pub mod Rounds
pub mod Scheduled
