-- What replay says of a piece of the trace.
pub mod Offer
