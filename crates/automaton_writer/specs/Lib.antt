pub mod Filed
pub mod Records
pub mod Writes
