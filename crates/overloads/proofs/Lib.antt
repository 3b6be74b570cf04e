pub mod Overloads
pub mod Blocks
