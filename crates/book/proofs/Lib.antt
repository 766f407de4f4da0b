pub mod Placing
pub mod Groups
pub mod Finding
pub mod Rising
pub mod Messages
pub mod Dropping
pub mod Ends
pub mod Delivering
