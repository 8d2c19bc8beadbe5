-- A program that calls the watcher from C, by the contracts of its calls; and demand 3 of every such program
pub mod Program
pub mod Upheld
