pub mod Columns
pub mod Rows
pub mod Lists
