pub mod LowestLaws
pub mod WaveLaws
