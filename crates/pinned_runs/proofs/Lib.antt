pub mod Free
pub mod Pinned
pub mod Verdicts
pub mod Links
pub mod Bytes
pub mod Lengths
