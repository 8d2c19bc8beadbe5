-- The unused places of a line, one after the other.
pub mod Unused
