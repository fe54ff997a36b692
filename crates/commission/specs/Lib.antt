pub mod Journeys
pub mod Guarantee
