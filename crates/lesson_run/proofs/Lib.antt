pub mod RunLaws
pub mod PutLaws
pub mod StandsLaws
