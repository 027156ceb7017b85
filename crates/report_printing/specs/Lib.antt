-- What a reader must believe of the program `report`: what it prints for a sheet.
pub mod Prints
