-- Definitions of the server: what its numbers and the lent memory hold, its answers, and what a call has to give.
pub mod Memory
pub mod Numbers
pub mod Changes
pub mod Checks
pub mod Answers
pub mod Starting
