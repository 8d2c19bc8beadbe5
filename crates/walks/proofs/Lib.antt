-- The rules that walks by hand are made of.
pub mod Walk
