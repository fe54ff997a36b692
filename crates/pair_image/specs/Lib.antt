pub mod Calls
pub mod Format
pub mod Rules
