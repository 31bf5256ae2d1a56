pub mod Stream
pub mod Passes
pub mod Holding
pub mod Calls
pub mod Runs
pub mod Lists
pub mod Laws
pub mod Worked
