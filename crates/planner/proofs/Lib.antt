pub mod Left
pub mod Figures
pub mod MoreSteps
pub mod Searching
pub mod EvenLists
pub mod Planned
pub mod Judged
pub mod Main
