-- `see` meets its contract.
use Rattle.checker_order.proofs.Bounds.{row_in, input_in}
use Rattle.checker_order.proofs.see.Goals as goal

pub row-x-requires : goal.row-x-requires
row-x-requires c = row_in c.args.c c.args.inputs _ c.requires.2 c.requires.3

pub insert-y-requires : goal.insert-y-requires
insert-y-requires c = input_in c.args.c c.args.inputs c.requires.0 c.requires.1

pub put-requires : goal.put-requires
put-requires c =
    row_in c.args.c c.args.inputs _ c.requires.2 c.requires.3
