pub mod FirstMatch
pub mod Places
pub mod PairLaws
