pub mod WordLaws
pub mod TimeLaws
pub mod AddressLaws
pub mod ValueLaws
pub mod Worked
