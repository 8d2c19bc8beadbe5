-- The user's demands, each proved
pub mod Demands
-- in their order
pub mod Total
pub mod Published
pub mod Cutting
pub mod Accesses
pub mod Quarantine
pub mod Sought
pub mod Shape
pub mod Direct
-- that no more holds: a redzone of R + 1, a quarantine of Q + 1 ..
pub mod Sharp
-- from the bytes of a text and its report to the states in between
pub mod Lines
pub mod Digits
pub mod History
pub mod Replay
-- a beginning has the invariant, and what a text leaves is a beginning again
pub mod Beginning
pub mod Agreement
-- the invariant: how blocks lie, which are live, which are quarantined, and that every line keeps it
pub mod Invariant
pub mod Laid
pub mod Kept
pub mod Blocks
pub mod Standing
pub mod Latest
pub mod Queue
pub mod Drawn
