-- Laws of the lines' definitions: numbers and octets read back, octets below 256, fields parted and joined, input in chunks, and how the loops go.
pub mod Bench
pub mod Bytes
pub mod Carrying
pub mod Cutting
pub mod Digits
pub mod Lines
pub mod Numbers
pub mod Parting
pub mod ReadBack
pub mod Searching
pub mod Streaming
pub mod Tabless
pub mod Verbs
pub mod Writing
