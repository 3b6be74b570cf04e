pub mod Shifts
pub mod Tallies
pub mod Fitting
