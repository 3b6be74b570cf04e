pub mod Levels
pub mod Filling
pub mod Shares
pub mod Only
pub mod Main
pub mod Outcomes
