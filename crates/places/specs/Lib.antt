-- What a search for a place asks of its caller; what it answers is said by the definitions of `rules`.
pub mod Window
