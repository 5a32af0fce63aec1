pub mod Checks
pub mod Judging
pub mod Refusals
