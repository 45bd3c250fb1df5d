-- Only the proofs of the functions of src/memory.rt can name this module.
mod Refused
