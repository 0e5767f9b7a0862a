pub mod Additions
pub mod Answers
