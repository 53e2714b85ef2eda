pub mod Warshall
pub mod Joined
pub mod Marked
pub mod Through
