-- What the contracts of a program's calls come to.
pub mod Program
pub mod Upheld
