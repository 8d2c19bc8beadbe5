-- The paper as definitions, in the paper's order. Nothing else has to be believed; the laws are in `proofs/`.
-- What the watcher holds: Limits, Table. Three tools that the rules share: Field, Lowest, Put.
pub mod Field
pub mod Limits
pub mod Lowest
pub mod Put
pub mod Table
-- The shadow byte, and the range rule
pub mod Shadow
-- When the watcher says no: the table of answers
pub mod Answers
-- Grant, release, quarantine
pub mod Grant
pub mod Release
-- Frames in, frames out, in text
pub mod Hex
pub mod Frames
-- One byte, a text, and how far a piece is taken, whatever engine acts on its lines
pub mod Feed
-- The watcher's engine: what a frame does to a shadow and a table
pub mod Watcher
-- Opening, the check behind 24, the direct calls, feed
pub mod Calls
-- The two published address maps
pub mod Maps
-- One night's trace, whole
pub mod Night
