pub mod Scan
pub mod Number
pub mod Held
pub mod Line
pub mod Holding
pub mod File
pub mod Message
pub mod Written
