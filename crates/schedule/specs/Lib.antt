pub mod Ranges
pub mod Kinds
pub mod Faults
pub mod Widths
pub mod Texts
pub mod Laws
