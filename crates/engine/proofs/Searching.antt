-- The search: a candidate taken, tried and taken back; the candidates of a leaf in a row; a leaf treated; the whole.
pub mod Again
pub mod Scanned
pub mod Ended
pub mod Takes
pub mod Attempts
pub mod Rows
pub mod Climbs
pub mod Treating
pub mod Finding
