-- Lemmas of this crate's proofs.
mod Rows
