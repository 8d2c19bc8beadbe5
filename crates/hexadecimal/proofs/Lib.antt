-- A number digit by digit: read from its highest, written from its lowest.
pub mod Digits
