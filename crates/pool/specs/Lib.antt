pub mod Refusals
pub mod Numbers
pub mod Blocks
pub mod Rules
pub mod Parts
pub mod NumberTable
pub mod Steps
pub mod Facts
