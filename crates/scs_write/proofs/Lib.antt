pub mod ScsLaid
pub mod ScsFiles
pub mod ScsFits
pub mod Theorems
