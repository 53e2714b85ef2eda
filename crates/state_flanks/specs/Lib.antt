pub mod WithFlanks
pub mod inner
