-- What the contracts of `set_frames` cite. Assumes nothing.
pub mod Frames
