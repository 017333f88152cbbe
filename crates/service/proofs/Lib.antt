-- Demand 3 over whole lists of calls: what each call keeps, and the theorem. Then the numbers of the answers, and the bench
-- examples. Then isolation: what a call gives one session, two runs, the theorem, and a pair by computation.
pub mod Outputs
pub mod Related
pub mod Quiet
pub mod Checks
pub mod Plain
pub mod Batch
pub mod Replies
pub mod Message
pub mod Theorem
pub mod Numbers
pub mod Examples
pub mod Bench
pub mod Share
pub mod Given
pub mod Coming
pub mod SameStore
pub mod Isolation
pub mod Pair
