pub mod StepTold
