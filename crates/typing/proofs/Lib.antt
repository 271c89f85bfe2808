pub mod Joint
pub mod Likes
pub mod Bounds
