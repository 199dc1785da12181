-- What the theorems say: the plain machine, lists of calls on a reader, demand 3, and document 01's numbers.
pub mod Chunking
pub mod Demand3
pub mod Lists
pub mod Machine
pub mod Numbers
