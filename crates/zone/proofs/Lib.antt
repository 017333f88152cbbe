-- Laws of the zone, for the layers above, and examples by computation.
pub mod Lists
pub mod Keys
pub mod Stores
pub mod Spelling
pub mod Views
pub mod Layouts
pub mod Goods
pub mod Batches
pub mod Edits
pub mod Memory
pub mod Written
pub mod Updates
pub mod Filled
pub mod Applies
pub mod Readings
pub mod Steps
pub mod Bench
