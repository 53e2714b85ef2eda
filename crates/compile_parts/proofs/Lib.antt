-- Why the contracts hold.
pub mod Fits
pub mod Stages
