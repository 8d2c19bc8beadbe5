-- What the evictions leave, and what they ask of their callers.
pub mod Evictions
