-- Laws of the lines of an answer: what is noted of each session, and how the lines are written; and of a whole script.
pub mod Noting
pub mod Telling
pub mod Fits
pub mod Responding
