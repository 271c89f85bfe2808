pub mod Rows
pub mod Parsed
pub mod Write
pub mod Samples
