-- A piece, byte by byte.
pub mod Feeding
