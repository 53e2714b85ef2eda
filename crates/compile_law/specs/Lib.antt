pub mod Compiled
pub mod Runs
