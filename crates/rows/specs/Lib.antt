pub mod Cells
pub mod Columns
pub mod Lines
pub mod Names
