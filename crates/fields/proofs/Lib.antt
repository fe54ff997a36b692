pub mod Faults
pub mod Bytes
pub mod Writes
