pub mod Worst
pub mod Inner
