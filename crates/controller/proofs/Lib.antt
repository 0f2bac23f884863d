-- Sheets: the table by input. Components: the table by component.
pub mod Sheets
pub mod Components
