pub mod Inner
pub mod Blocks
