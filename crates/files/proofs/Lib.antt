pub mod Axes
pub mod Headers
pub mod Written
pub mod Outcomes
