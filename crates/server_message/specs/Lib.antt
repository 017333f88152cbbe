-- What a received message makes of the server.
pub mod Delivery
pub mod Lent
