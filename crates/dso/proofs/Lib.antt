-- Laws of the DSO layer that several proofs, and the layers above, cite.
pub mod Bench
pub mod Judgments
pub mod Openings
pub mod Responses
pub mod Tlvs
pub mod Meant
