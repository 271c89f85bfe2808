pub mod Integrity
pub mod Tables
pub mod Rounds
pub mod Laws
pub mod Weakened
pub mod Loosened
pub mod EachNeeded
