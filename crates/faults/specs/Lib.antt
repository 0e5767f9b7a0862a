pub mod FileFaults
pub mod InputFiles
pub mod ProgramFaults
pub mod RowFaults
