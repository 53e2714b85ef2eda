pub mod Next
pub mod Reads
