-- `write_row`: a column of entries.
use Rattle.controller_rows.proofs.Writes.{row_asks, row_of}
use Rattle.controller_rows.proofs.rows.write_row.Goals as goal

pub write_column-requires : goal.write_column-requires
write_column-requires c =
    row_asks c.args.z _ c.requires.0 c.layout_of.ensures c.requires.1 c.requires.2 c.staying-e.ensures

pub returns : goal.returns
returns c =
    row_of c.args.z c.args.o.0 c.args.b.0 c.args.p c.layout_of.ensures c.staying-e.ensures c.write_column.ensures
