pub mod Records
pub mod Filetrip
pub mod Reading
pub mod Rows
pub mod Marking
