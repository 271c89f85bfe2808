pub mod ByKind
pub mod Packs
pub mod Placed
pub mod Local
pub mod Seen
pub mod ReadRows
pub mod WriterSamples
