pub mod AddressDemands
pub mod AddressRefunds
