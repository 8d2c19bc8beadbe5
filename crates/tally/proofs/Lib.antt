-- A report taken in parts, and what a verdict means.
pub mod Parts
pub mod Judged
