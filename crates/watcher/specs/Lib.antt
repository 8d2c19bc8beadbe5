-- What each public call says of its result and of every lent buffer.
pub mod Calls
