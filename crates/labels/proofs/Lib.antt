pub mod Impossible
pub mod Orders
