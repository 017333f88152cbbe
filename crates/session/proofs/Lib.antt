-- Laws of a session's clocks and of its table of subscriptions.
pub mod Timeouts
pub mod Table
pub mod Held
pub mod Changes
