pub mod Tables
pub mod Flows
