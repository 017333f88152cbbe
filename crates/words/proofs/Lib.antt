-- Laws of the words that are saved.
pub mod Saving
