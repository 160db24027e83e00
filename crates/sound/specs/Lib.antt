pub mod Sound
pub mod CutProperties
pub mod Sequences
pub mod ListEffects
pub mod EveryCall
pub mod Refusals
pub mod Room
