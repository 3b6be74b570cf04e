pub mod Rounds
pub mod States
pub mod Runs
pub mod Exact
pub mod Counters
pub mod Main
pub mod Queues
pub mod FourNumbers
