-- Laws of receiving a message.
pub mod Sizes
pub mod Admitted
pub mod Answers
