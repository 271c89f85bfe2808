pub mod Filling
pub mod Saved
