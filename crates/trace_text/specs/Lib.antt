pub mod EventWords
pub mod Events
pub mod Lines
pub mod Plain
pub mod Rows
pub mod Stored
pub mod Trace
