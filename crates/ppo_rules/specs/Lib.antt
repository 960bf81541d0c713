pub mod Retirements
