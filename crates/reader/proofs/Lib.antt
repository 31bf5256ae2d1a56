pub mod Naming
pub mod Limits
pub mod Pairs
pub mod Taking
