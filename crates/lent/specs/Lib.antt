-- What the call over a lent session says.
pub mod Calls
