pub mod Used
pub mod Exits
