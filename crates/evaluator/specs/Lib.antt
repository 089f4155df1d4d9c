pub mod Faults
pub mod Values
pub mod Rows
pub mod Operators
pub mod Evaluate
