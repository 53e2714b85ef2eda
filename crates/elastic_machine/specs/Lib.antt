pub mod Elastic
pub mod ElasticCode
pub mod Kept
pub mod Lanes
pub mod Moves
pub mod Queued
pub mod Ready
