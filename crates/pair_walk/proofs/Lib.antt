pub mod Law
pub mod Steps
