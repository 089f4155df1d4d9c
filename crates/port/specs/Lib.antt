pub mod Meaning
pub mod Record
pub mod Wave
pub mod Calibrator
pub mod Client
