-- What a report says in sum, and what its verdict is of.
pub mod Tally
pub mod Verdict
