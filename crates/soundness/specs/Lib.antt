pub mod Evaluation
pub mod Open
pub mod Sound
