pub mod ExplainedReads
