pub mod After
mod Consistent
pub mod Facts
pub mod Order
pub mod Positions
pub mod Run
