-- What the functions that put a row into the quarantine leave, and what they ask of their callers.
pub mod Quarantine
