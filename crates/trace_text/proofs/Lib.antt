pub mod EventLines
pub mod Made
pub mod Once
pub mod PlainRows
pub mod Reading
pub mod Records
pub mod Storing
pub mod Whole
