-- What a frame does, or an answer in its place.
pub mod Acting
