pub mod Lines
pub mod Digits
pub mod Remarks
pub mod Reading
pub mod Sums
