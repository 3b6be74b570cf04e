pub mod Crossed
pub mod Sizes
pub mod Putting
pub mod Pages
pub mod Answers
pub mod Main
pub mod Table
