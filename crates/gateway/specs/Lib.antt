pub mod Calls
pub mod Sessions
pub mod Gateways
pub mod Laws
pub mod Runs
