pub mod Drawing
pub mod Refusing
pub mod Launched
