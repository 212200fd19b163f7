pub mod Answers
pub mod BlockHeads
