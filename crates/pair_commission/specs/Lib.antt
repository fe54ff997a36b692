pub mod Journeys
pub mod Laws
pub mod Runs
pub mod Guarantee
