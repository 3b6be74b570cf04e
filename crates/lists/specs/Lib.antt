pub mod Lists
pub mod Good
pub mod Answers
pub mod Refusals
pub mod Editions
pub mod Judged
