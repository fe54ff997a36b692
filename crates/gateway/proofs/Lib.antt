pub mod Agreeing
pub mod Doing
pub mod Fairness
pub mod Serving
pub mod SoFar
pub mod Sole
mod Alike
pub mod Tables
pub mod Slots
