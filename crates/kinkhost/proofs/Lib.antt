-- No second outcome fits a call's statement.
pub mod Only
