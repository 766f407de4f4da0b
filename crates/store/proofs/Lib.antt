pub mod Orders
pub mod Tables
pub mod Seeking
pub mod Agreeing
pub mod Edits
