pub mod Cells
pub mod SaidLaws
pub mod OpenerCells
pub mod OpenerSaid
