pub mod AddedColumn
pub mod ColumnFill
pub mod Counting
pub mod FilledFacts
pub mod Limits
pub mod Spreading
