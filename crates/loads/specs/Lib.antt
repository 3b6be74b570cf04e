pub mod Gathered
pub mod Parts
pub mod Tables
pub mod Windows
pub mod Flows
pub mod Claim
