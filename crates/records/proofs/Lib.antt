pub mod Words
pub mod Moves
pub mod Compacting
pub mod Ordering
