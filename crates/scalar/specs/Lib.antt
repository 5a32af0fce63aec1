pub mod Meaning
pub mod Real
pub mod Inverses
pub mod Residues
pub mod Pairs
pub mod Shown
