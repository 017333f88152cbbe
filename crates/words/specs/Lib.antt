-- How a server's numbers stand in lent words, and which values go with an answer.
pub mod Words
pub mod Values
