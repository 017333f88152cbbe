-- Definitions of receiving: what the code hands back is the effect that the service's definition gives.
pub mod Effect
pub mod Subscribe
