pub mod Shapes
pub mod Rules
pub mod Verdict
pub mod Samples
pub mod Asked
