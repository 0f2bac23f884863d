-- `next_name` meets its contract.
use Rattle.catalogue_names.proofs.Splitting.{next_inside, next_last}
use Rattle.catalogue_names.proofs.next_name.Goals as goal

pub returns-then-end-list : goal.returns-then-end-list
returns-then-end-list c = next_inside _ _ c.requires _ c.name_end-end.ensures c.if-end-list.true

pub returns : goal.returns
returns c = next_last _ _ c.requires _ c.name_end-end.ensures c.if-end-list.false
