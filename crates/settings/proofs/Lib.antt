pub mod BeforeLaws
pub mod PowerLaws
pub mod RateLaws
pub mod RefusalLaws
pub mod SettingsLaws
pub mod Worked
