pub mod Words
pub mod Steps
pub mod Times
pub mod Addresses
pub mod Values
