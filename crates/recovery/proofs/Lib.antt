pub mod Carries
pub mod Drains
pub mod Firsts
pub mod Lower
