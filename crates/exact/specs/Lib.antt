pub mod Exact
pub mod Field
pub mod Squares
pub mod FitDoubles
pub mod Rounding
pub mod Telling
