pub mod BitLaws
pub mod EntryLaws
pub mod FirstMatch
pub mod Telling
pub mod Verdicts
pub mod FromFn
