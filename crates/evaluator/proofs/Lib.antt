mod Topmost
pub mod Unrolled
