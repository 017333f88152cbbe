-- Definitions of a session: its two clocks, and its table of subscriptions.
pub mod Clocks
pub mod Subscriptions
pub mod Table
