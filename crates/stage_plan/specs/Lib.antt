pub mod Schedule
pub mod Chains
pub mod Best
pub mod Faults
pub mod Board
