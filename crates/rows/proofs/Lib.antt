pub mod Once
pub mod Fields
pub mod Named
pub mod Spelled
pub mod Exact
pub mod Plain
