-- The turns lessened row by row, and evictions one at a time.
pub mod Lessening
pub mod Settling
