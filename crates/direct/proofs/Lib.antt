pub mod Adding
pub mod Assigning
pub mod Settling
