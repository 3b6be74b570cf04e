pub mod Rules
pub mod Stage
pub mod Lists
pub mod Claim
pub mod Kinds
pub mod Judged
