pub mod Entries
pub mod Faults
pub mod Kinds
pub mod Telegrams
pub mod Told
