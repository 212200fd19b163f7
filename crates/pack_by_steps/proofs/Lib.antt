pub mod StepLoop
