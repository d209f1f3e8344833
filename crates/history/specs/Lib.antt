pub mod Concerning
