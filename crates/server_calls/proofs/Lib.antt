pub mod BytesStill
pub mod Made
pub mod Theorems
