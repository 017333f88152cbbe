-- Laws of the server: its numbers and what they hold, the checks, starting, and the calls.
pub mod Slices
pub mod States
pub mod Vacancies
pub mod Refusals
pub mod Accepted
pub mod Ticks
pub mod Starts
pub mod Outcomes
