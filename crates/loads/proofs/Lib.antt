pub mod Vectors
pub mod Widening
pub mod Passes
pub mod Chains
pub mod ByFlow
pub mod Parts
pub mod Main
