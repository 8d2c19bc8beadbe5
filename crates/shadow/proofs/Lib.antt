-- What the proofs of this crate share: the table of leading bytes, its rule by the sign, and the walk over a range.
pub mod Table
pub mod Signed
pub mod Walked
