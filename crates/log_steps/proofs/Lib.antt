pub mod StepBytes
pub mod Room
