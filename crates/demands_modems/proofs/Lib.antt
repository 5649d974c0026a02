pub mod AddressLaws
pub mod Theorem
pub mod AddressRefundTheorem
