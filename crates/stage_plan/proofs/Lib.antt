pub mod Greatest
pub mod Firsts
pub mod Boards
pub mod Levels
pub mod Kept
pub mod Orders
pub mod Longest
