mod ScsKept
pub mod ScsAreas
mod ScsStepOver
pub mod ScsFileBack
pub mod ScsStarts
mod RefutedScs
pub mod Theorems
