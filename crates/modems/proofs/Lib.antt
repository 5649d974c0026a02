pub mod AddressLaws
pub mod KeyLaws
pub mod Worked
