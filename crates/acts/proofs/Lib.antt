pub mod Values
pub mod Acting
