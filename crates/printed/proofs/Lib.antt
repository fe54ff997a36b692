pub mod Summaries
pub mod Spelling
pub mod PlanLines
pub mod PlannedFiles
pub mod TabulatedFiles
