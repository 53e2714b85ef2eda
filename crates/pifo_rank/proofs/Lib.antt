pub mod Arrivals
pub mod Drained
pub mod Keeping
pub mod Least
pub mod Lost
pub mod Serving
pub mod Standing
