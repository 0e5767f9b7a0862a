pub mod Concluding
pub mod Reading
pub mod Settling
pub mod Starts
