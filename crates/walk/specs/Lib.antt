pub mod Told
pub mod Growth
pub mod Costs
pub mod Visits
pub mod Surveys
pub mod Assignments
