pub mod EachStep
pub mod StepPlaces
pub mod Theorems
