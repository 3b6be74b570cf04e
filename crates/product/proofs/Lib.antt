pub mod Causes
pub mod Main
pub mod Plans
pub mod Fewer
pub mod Lags
pub mod Units
pub mod Edges
