pub mod Order
pub mod Pipeline
pub mod Queues
pub mod Serial
pub mod Stage
