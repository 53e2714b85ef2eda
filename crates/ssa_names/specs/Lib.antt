pub mod Blanked
pub mod Naming
pub mod inner
