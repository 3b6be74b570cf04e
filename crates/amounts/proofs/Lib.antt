pub mod Bounds
pub mod Left
pub mod Good
pub mod Tables
pub mod Windows
pub mod PairRows
