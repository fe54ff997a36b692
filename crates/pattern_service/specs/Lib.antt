pub mod MarkedBy
pub mod Filed
pub mod Service
