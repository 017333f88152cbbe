-- Definitions of the replay program's lines, read and written, and what the code promises in their words.
pub mod Chunks
pub mod Code
pub mod Digit
pub mod Fields
pub mod Hex
pub mod Line
pub mod Number
pub mod Output
pub mod Stream
pub mod Verb
