-- Definitions of blocks in lent memory.
pub mod Blocks
