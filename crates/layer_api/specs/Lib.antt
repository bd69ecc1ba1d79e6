pub mod Drawable
pub mod ListText
pub mod CensusText
pub mod SvgText
pub mod LayerText
pub mod KeptPair
