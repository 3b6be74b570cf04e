pub mod Share
pub mod Claim
pub mod Inner
pub mod Demands
