pub mod Pastes
