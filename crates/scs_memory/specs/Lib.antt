pub mod ScsMemory
