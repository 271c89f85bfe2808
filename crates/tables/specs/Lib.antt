pub mod Bytes
pub mod Asked
pub mod Opening
