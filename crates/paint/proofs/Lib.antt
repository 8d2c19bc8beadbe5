-- What the painter's goals cite.
pub mod Granted
