-- What is made of codelets, their atoms and their places.
pub mod Adding
