pub mod Masks
pub mod StepWords
pub mod Fingerprints
pub mod Packed
pub mod Roundtrip
pub mod Gathered
