pub mod Walks
pub mod DeclaredCells
pub mod BookRules
pub mod Tables
