pub mod Sizes
pub mod Judged
pub mod Table
pub mod Each
