-- Lemmas of this crate's proofs.
mod Numbers
mod Texts
mod Words
