-- What a feed's answer leads to, a piece taken part by part, and how a run ends.
pub mod Pieces
pub mod Ended
