pub mod Rules
pub mod Placed
pub mod View
pub mod Finding
pub mod Logs
