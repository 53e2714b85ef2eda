pub mod NamedOrder
pub mod PartForms
pub mod Serials
