pub mod Entering
pub mod Filling
pub mod OneAnswer
pub mod Simulation
pub mod Tracing
pub mod Turns
pub mod Walking
