-- Containers that values share.
pub mod Facts
pub mod Spans
pub mod Renamed
pub mod Shared
pub mod Marks
pub mod State
