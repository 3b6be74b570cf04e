pub mod Totals
pub mod Marking
pub mod Pairs
pub mod Checking
pub mod Main
