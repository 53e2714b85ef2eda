pub mod Answers
pub mod Resolve
pub mod Scope
pub mod Verdict
pub mod Walk
pub mod inner
