pub mod Algebra
pub mod PairLaws
pub mod CheckLaws
pub mod Rounded
pub mod FitLaw
