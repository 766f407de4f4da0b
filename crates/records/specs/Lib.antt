pub mod Encode
pub mod Layout
pub mod Order
