-- What one pass over the rows finds, and what the functions over them ask of their callers.
pub mod Survey
