pub mod Bound
pub mod Card
