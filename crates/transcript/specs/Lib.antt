-- Definitions of the replay program: the lines of an answer; what a line gives.
pub mod Lines
pub mod Responses
