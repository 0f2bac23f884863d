-- `is_unseen` meets its contract.
use Rattle.checker_order.proofs.Bounds.{row_in, input_in}
use Rattle.checker_order.proofs.is_unseen.Goals as goal

pub row-requires : goal.row-requires
row-requires c = let P = c.requires in row_in c.args.c c.args.inputs _ P.2 P.3

pub member-requires : goal.member-requires
member-requires c = input_in c.args.c c.args.inputs c.requires.0 c.requires.1
