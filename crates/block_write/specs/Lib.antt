pub mod BlockFor
