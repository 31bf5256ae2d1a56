pub mod Symbols
pub mod Middle
pub mod Finding
pub mod Law
