-- Why the contracts and the laws hold.
pub mod Accepted
pub mod Firsts
pub mod Lines
pub mod Numbers
pub mod OnePlan
pub mod PlacedRuns
pub mod ReadTo
pub mod Sharing
