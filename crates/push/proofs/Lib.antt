-- Laws of change notifications, and examples of them by computation.
pub mod ReadBack
pub mod Framing
pub mod Plains
pub mod Effects
pub mod Covers
pub mod Chosen
pub mod Pigeonhole
pub mod Firsts
pub mod Arrive
pub mod Subscribing
pub mod Sizes
pub mod Needed
pub mod Fewest
pub mod Few
pub mod Quoted
pub mod Bench
