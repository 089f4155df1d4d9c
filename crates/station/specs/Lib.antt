pub mod Verb
pub mod Report
pub mod Calibrate
pub mod Failure
