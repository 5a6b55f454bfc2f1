pub mod Waveforms
pub mod Control
pub mod Pcm
pub mod Queue
pub mod PlainQueue
