pub mod Room
pub mod Decimals
pub mod Answered
pub mod Composed
