-- What texts compile to.
pub mod Answer
pub mod Compiled
pub mod InOrder
pub mod Layers
pub mod Programs
pub mod Runs
pub mod Verdict
pub mod WellNamed
