pub mod Check
pub mod Inner
pub mod Claim
