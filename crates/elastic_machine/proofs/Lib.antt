pub mod Alone
pub mod Happening
pub mod Lanes
pub mod Leading
pub mod Places
pub mod Starting
