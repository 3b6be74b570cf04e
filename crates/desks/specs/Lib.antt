pub mod Round
pub mod State
pub mod Run
pub mod Claim
pub mod Seen
pub mod Four
pub mod Inner
