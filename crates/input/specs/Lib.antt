-- Definitions of lines read in chunks: how far the input has come, and what taking a line gives.
pub mod Reading
