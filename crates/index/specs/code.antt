pub mod Trail
