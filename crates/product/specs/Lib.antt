pub mod Demand3
pub mod Demand2
pub mod Accepted
pub mod Units
pub mod Lags
pub mod Edges
