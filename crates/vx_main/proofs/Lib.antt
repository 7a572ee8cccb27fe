pub mod RunsLemmas
pub mod StreamsLemmas
