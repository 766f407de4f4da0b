pub mod Table
pub mod Formed
pub mod Seek
pub mod Sides
pub mod Agree
