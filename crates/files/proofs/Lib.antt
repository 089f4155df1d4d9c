pub mod Cuts
pub mod Decimal
pub mod Reading
pub mod ReadBack
