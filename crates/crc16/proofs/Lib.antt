mod Linear
mod Residue
