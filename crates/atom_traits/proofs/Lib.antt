pub mod Bits
pub mod Bounds
pub mod Hierarchy
pub mod OperationLaws
pub mod Parameters
pub mod SameLaws
