pub mod Listed
pub mod OneConfig
pub mod OneFinding
pub mod Stopped
pub mod Told
