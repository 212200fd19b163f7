pub mod ExplainedBytes
