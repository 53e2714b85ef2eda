-- Why the contracts hold.
pub mod Causes
pub mod Drawn
pub mod InOrder
pub mod Listed
pub mod Names
pub mod OneAnswer
pub mod OneFront
pub mod OneProgram
pub mod Runs
pub mod Sharing
pub mod WellNamed
