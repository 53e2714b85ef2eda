pub mod Becomes
pub mod Flattening
pub mod Needs
pub mod Statements
pub mod inner
