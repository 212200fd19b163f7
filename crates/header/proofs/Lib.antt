pub mod HeadSteps
pub mod AcceptedHeads
