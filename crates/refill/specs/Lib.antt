pub mod Refill
