pub mod Readers
pub mod Copies
