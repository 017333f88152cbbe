-- Definitions of change notifications: what they cover, the list that a session is sent, their octets and reading them.
pub mod Change
pub mod List
pub mod Measure
pub mod Octets
pub mod Plain
pub mod Frames
