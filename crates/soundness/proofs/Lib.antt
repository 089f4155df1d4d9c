pub mod Meets
mod Parts
mod Evaluation
mod Tables
mod Rows
mod Good
mod Stack
mod Keep
mod Safe
mod Ends
mod Begins
pub mod Main
