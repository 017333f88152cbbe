-- Definitions of the wire layer: fields, names, and what a list of octets is after a write.
pub mod Case
pub mod Field
pub mod Name
pub mod Part
pub mod Reading
