-- What the contracts of INTEGER's arithmetic cite.
pub mod Fault
pub mod Arithmetic
pub mod Division
pub mod Examples
