-- Laws of change notifications in octets.
pub mod Records
pub mod Removals
pub mod Marked
pub mod Lookups
pub mod Choices
pub mod Writing
pub mod Heads
pub mod Messages
