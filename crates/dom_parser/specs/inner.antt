pub mod AtPlace
pub mod Following
pub mod HeadReads
pub mod Reads
