-- Runs of the code, what demand 3 says of them, and calls in code; runs as their callers see them.
pub mod Runs
pub mod Plays
pub mod Isolation
