pub mod Layouts
pub mod Conversion
pub mod code
