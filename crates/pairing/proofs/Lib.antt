pub mod Pairs
pub mod Fronts
pub mod Sections
pub mod Contents
pub mod Images
pub mod Tables
