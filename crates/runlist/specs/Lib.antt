pub mod Format
pub mod Laws
pub mod Lists
pub mod Reads
pub mod Writes
pub mod Words
