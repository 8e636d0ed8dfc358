-- The definitions of gm_book that no clause of `tool` rests on: Faults, Building, FirstNameFault, Printing, Fitting, Values and Unsigned.
pub mod Faults
pub mod Building
pub mod FirstNameFault
pub mod Printing
pub mod Fitting
pub mod Values
pub mod Unsigned
