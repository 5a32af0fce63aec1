pub mod Checking
pub mod FirstWrong
