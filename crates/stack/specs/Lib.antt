pub mod Tables
pub mod Acts
pub mod Stacks
pub mod Laws
pub mod Lookup
