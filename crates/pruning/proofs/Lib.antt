pub mod Picking
pub mod Discarding
pub mod Filtering
pub mod LogStays
pub mod Staying
pub mod Cutting
