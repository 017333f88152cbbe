-- Laws of the wire layer's definitions, which the proofs of this crate and of those above cite; and worked examples.
pub mod Bench
pub mod Fields
pub mod Loops
pub mod Names
pub mod Writes
