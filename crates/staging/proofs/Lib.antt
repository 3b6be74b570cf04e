pub mod Turns
pub mod Runs
pub mod Answers
