pub mod Found
pub mod Round
pub mod Scans
pub mod Fairness
pub mod Order
pub mod Samples
