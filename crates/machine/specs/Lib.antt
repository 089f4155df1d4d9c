pub mod Outcomes
pub mod Counts
pub mod Decide
pub mod State
pub mod Machines
pub mod Begin
pub mod Go
