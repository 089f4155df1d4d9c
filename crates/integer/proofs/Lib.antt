-- The lemmas that the proofs cite; crates above may cite them too.
pub mod Division
