pub mod Gathering
pub mod Hex
pub mod Reading
pub mod RoundTrip
pub mod Writing
