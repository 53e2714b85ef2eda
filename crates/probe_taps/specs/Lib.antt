pub mod Attached
pub mod Runs
pub mod Taps
