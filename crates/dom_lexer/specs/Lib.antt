pub mod Bytes
pub mod Text
pub mod Words
pub mod Answer
pub mod inner
