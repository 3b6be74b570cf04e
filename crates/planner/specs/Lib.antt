pub mod Sums
pub mod Planned
pub mod Search
pub mod Claim
