pub mod Allowed
pub mod Arriving
pub mod Answering
pub mod Restarting
pub mod Faulting
pub mod Cutting
pub mod Wording
