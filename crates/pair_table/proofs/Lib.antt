pub mod Found
pub mod HandedOn
pub mod OneVerdict
pub mod Sorted
pub mod Settled
