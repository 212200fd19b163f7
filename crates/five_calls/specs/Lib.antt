pub mod FiveCalls
