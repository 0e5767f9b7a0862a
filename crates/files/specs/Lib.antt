pub mod Format
pub mod Reads
pub mod Rows
