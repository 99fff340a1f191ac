pub mod Automaton
pub mod Arrays
pub mod Claims
