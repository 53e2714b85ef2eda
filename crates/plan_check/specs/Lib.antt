-- Plans by hand.
pub mod Fronts
pub mod HandFaults
pub mod Placed
pub mod PlanText
pub mod Reader
