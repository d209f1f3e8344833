-- What the contract of `netlist` cites. Assumes nothing.
pub mod Netlist
