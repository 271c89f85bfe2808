pub mod Passes
pub mod RowsPass
pub mod TablesPass
pub mod Vetted
