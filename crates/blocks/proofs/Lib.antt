-- What a pass over the rows finds, one row more at a time.
pub mod Survey
