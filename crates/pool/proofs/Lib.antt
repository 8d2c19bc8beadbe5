-- What a grant asks of the row and the place that were found.
pub mod Granting
-- What is said of an answer in a frame's place.
pub mod Acting
