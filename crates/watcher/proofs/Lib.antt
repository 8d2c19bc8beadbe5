-- Reading a call's statement off one equation, and what follows from the statements.
pub mod Calls
pub mod Fitting
pub mod Only
pub mod Refusals
