pub mod Namings
pub mod Obeys
pub mod Levels
mod Trees
mod Lowest
mod Turns
pub mod Verdicts
