pub mod Cuts
pub mod Splits
