-- The call over a lent session beside the by-value one, and what follows from its statement.
pub mod Calls
pub mod Only
pub mod Refusals
