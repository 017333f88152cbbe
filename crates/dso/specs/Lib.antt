-- Definitions of the DSO layer: a message's header and TLVs, its judgment from its octets alone, the responses, and
-- which record types and classes a subscription asks for.
pub mod Header
pub mod Tlv
pub mod Judge
pub mod Types
pub mod Steps
pub mod Parts
pub mod Response
pub mod Match
