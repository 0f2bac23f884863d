-- `write_move` writes the entry of the move.
use Rattle.table_walks.proofs.Stamping.{stamp_entries}
use Rattle.table_walks.proofs.write_move.Goals as goal

pub write-requires : goal.write-requires
write-requires c =
    let p = c.requires in
    (p.0, p.1, stamp_entries _ _ _ _ _ p.0 p.3 p.2 c.first_entry-first.ensures)

pub returns : goal.returns
returns c =
    rw c.first_entry-first.ensures at c.write.ensures
