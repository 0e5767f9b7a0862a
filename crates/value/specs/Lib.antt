pub mod Faults
pub mod Placing
pub mod Ranges
pub mod Spelling
