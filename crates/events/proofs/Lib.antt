pub mod Walks
pub mod Scans
pub mod Bounds
