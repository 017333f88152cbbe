-- Definitions of the zone: records, the store, matching, the layout of a record in octets, batches.
pub mod Lists
pub mod Record
pub mod Store
pub mod Match
pub mod Layout
pub mod Batch
pub mod Fits
pub mod Sound
pub mod Table
pub mod Update
pub mod Edit
pub mod Batches
pub mod Drafts
