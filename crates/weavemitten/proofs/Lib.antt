-- Laws of the C library's answers; what the calls of the service return; runs of them.
pub mod Answers
pub mod Serving
pub mod Told
pub mod Runs
pub mod Isolation
