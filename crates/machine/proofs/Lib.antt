pub mod Counting
pub mod Resting
mod ParameterLists
