pub mod ReadLemmas
pub mod FramesLemmas
pub mod MovesLemmas
pub mod AppendingLemmas
