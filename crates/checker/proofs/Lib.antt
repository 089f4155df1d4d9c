mod Unrolled
mod Capping
mod InTurn
mod Named
pub mod Shapes
pub mod Chains
mod Scopes
pub mod Expressions
mod Declared
mod Stated
mod Reasons
mod Whole
