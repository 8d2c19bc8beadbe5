-- The user's demands, and what else he was promised
pub mod Demands
-- what they say, in their order
pub mod Total
pub mod Published
pub mod Cutting
pub mod Accesses
pub mod Quarantine
pub mod Sought
pub mod Shape
pub mod Direct
-- what they speak of: what lines and answers granted and released, the rows and the shadow that they draw, when these
-- agree with a history, and a text from a beginning
pub mod History
pub mod Rows
pub mod Agreement
pub mod Replay
-- the paper's night, seen by them
pub mod Night
