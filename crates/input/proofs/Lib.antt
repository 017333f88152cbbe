-- Laws of lines read in chunks: how far the input has come after a piece of it.
pub mod Resuming
pub mod Taking
