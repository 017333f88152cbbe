-- Demand 3 and isolation for the code.
pub mod Theorem
pub mod Continued
pub mod Isolation
