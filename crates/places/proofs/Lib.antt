-- The search for a place, over the starts and over one window.
pub mod Sought
