-- Definitions of the C library.
pub mod Questions
pub mod Calls
pub mod Told
pub mod Runs
pub mod Isolation
