pub mod Make
pub mod Places
pub mod State
