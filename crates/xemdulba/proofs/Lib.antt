pub mod Answers
pub mod Calling
pub mod Launching
pub mod Wrote
pub mod LaunchNumbers
