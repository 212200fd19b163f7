pub mod FilesTwice
