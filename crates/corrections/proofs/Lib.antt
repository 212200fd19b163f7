pub mod CorrectionSteps
