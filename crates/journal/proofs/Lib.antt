pub mod Sorting
pub mod Holding
pub mod Reading
pub mod Steps
