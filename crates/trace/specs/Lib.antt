-- What the functions of a trace ask, and what they leave.
pub mod Feed
