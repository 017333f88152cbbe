-- Laws of a received message.
pub mod Delivered
