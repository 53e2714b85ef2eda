pub mod Answer
pub mod Faults
pub mod Grammar
pub mod Names
pub mod Tokens
pub mod inner
