pub mod Registry
pub mod MetricText
pub mod Labels
pub mod Batches
pub mod Coherence
pub mod Several
