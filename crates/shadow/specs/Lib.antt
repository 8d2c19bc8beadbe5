-- The shadow byte's rule by its sign; what the functions answer is said by the definitions of `rules`.
pub mod Signed
