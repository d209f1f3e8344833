pub mod Waveform
pub mod Blocks
pub mod Answer
