pub mod Marking
pub mod Declining
