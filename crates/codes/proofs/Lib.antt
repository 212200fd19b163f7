pub mod Escape
pub mod CodesAhead
