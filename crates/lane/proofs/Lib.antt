pub mod Inside
pub mod Only
pub mod Through
pub mod Back
pub mod Replying
pub mod Agreeing
