pub mod Columns
pub mod Inner
