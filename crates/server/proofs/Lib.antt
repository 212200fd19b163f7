pub mod ByteClaim
pub mod CallsSoFar
pub mod Theorems
