pub mod Answerable
pub mod Arrivable
pub mod Shown
pub mod Told
pub mod Tickets
pub mod Opened
pub mod Collecting
pub mod Reading
