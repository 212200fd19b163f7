mod ScsLoads
mod ScsStores
pub mod ScsLengths
