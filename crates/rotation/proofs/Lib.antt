pub mod Entries
pub mod Ring
pub mod Kept
pub mod Rounds
pub mod Fairness
pub mod Order
pub mod Images
pub mod Samples
