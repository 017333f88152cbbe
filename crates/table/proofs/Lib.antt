-- Laws of blocks in lent memory, which the tables above cite.
pub mod Blocks
