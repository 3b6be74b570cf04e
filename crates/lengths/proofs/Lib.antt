pub mod Runs
pub mod Measuring
