-- Lemmas of the batch.
pub mod Pushed
