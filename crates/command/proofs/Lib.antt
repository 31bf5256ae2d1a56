pub mod Numerals
pub mod Rests
