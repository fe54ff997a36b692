pub mod Buckets
pub mod Index
pub mod States
