-- The laws of the definitions, a file for each file of `specs/`, the tests that they share, and two that go across
-- them.
pub mod Tests
pub mod Lowest
pub mod Put
pub mod Table
pub mod Shadow
pub mod Answers
pub mod Grant
pub mod Release
pub mod Hex
pub mod Frames
pub mod Feed
pub mod Watcher
pub mod Calls
pub mod Maps
-- each refusal only where its row of the table says
pub mod Refusals
-- values 08 to 7f are never written
pub mod Written
