-- Laws of the replay program's code: the call that a line makes, and what is told of it.
pub mod Performing
