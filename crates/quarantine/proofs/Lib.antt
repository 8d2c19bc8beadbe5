-- The row that enters the quarantine, and a release by what its pass finds.
pub mod Entering
pub mod Releasing
