-- Cells: the places of rows. Fills: writing right entries fills it. Told: what scratch tells. Entries: each entry is the right one.
-- Loops: so each loop fills its rows. Setting: what an accepted game gives to these. Laid: the table in its layout. Phases: the way home and the tour of one
-- home.
-- Homes: all homes. Table: the whole table.
pub mod Cells
pub mod Fills
pub mod Told
pub mod Entries
pub mod Loops
pub mod Setting
pub mod Laid
pub mod Phases
pub mod Homes
pub mod Table
