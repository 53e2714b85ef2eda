pub mod Flanks
pub mod Form
pub mod Kept
pub mod Laws
pub mod Lines
pub mod Meaning
