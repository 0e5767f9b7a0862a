pub mod Axes
pub mod Leading
pub mod Listed
pub mod Lists
pub mod Safety
