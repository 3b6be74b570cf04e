pub mod Ranges
pub mod Sums
