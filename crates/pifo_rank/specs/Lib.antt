pub mod ByKey
pub mod Kept
pub mod Queue
pub mod Ranked
pub mod RankedCode
pub mod Run
pub mod Serves
