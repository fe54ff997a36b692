pub mod StepAny
pub mod NextLemmas
pub mod StateLemmas
pub mod IndexLemmas
