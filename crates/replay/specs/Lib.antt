-- Definitions of the replay program's code: the call that a line makes.
pub mod Performing
