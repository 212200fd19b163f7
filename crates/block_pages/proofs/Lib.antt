pub mod BlockNumbers
