pub mod Columns
pub mod Filling
pub mod Marks
pub mod Tables
pub mod Trying
