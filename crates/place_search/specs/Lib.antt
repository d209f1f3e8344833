-- What a search of one frame from a place may answer, and what searches of a frame one after the other make. Assumes nothing.
pub mod Places
pub mod Operation
pub mod Chains
