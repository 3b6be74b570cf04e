pub mod InRange
pub mod PlanInRange
pub mod RulesInRange
pub mod Gathering
pub mod Results
