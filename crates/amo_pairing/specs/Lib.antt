pub mod Breaches
pub mod PairingLaws
pub mod Reservations
pub mod ScAnswers
pub mod Sources
