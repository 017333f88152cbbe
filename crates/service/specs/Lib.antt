-- The whole service as definitions: its state, its answers, the outcome of each call; the observer, and what demand 3 says of
-- the two; two runs beside each other, and what isolation says of them.
pub mod State
pub mod Answer
pub mod Checks
pub mod Message
pub mod Call
pub mod Reader
pub mod Observer
pub mod Demand
pub mod Isolation
