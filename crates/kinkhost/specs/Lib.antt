-- What the calls that answer in numbers say.
pub mod Calls
