-- What the code that writes change notifications works with.
pub mod Marks
pub mod Written
