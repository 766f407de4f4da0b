pub mod Exchanges
pub mod Replays
