pub mod Atoms
pub mod Classes
pub mod Meaning
pub mod Resolve
pub mod Rules
pub mod Table
