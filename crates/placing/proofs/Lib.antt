pub mod Sounding
pub mod PlaceLaws
pub mod Most
pub mod OnePlace
pub mod FirstLoop
