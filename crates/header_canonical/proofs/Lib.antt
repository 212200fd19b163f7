pub mod MachineBack
pub mod HeadBack
pub mod Canonical
pub mod Compared
pub mod Theorems
