pub mod Answers
pub mod Inputs
pub mod Prints
pub mod Tables
