-- `near`.
use Rattle.sets.specs.Words.{sets_in}
use Rattle.barred_grow.proofs.Rows.{near_told}
use Rattle.barred_grow.proofs.near.Goals as goal

pub returns : goal.returns
returns c =
    near_told (sets_in c.args.s.now) c.args.j _ _ _ _ _ c.row.ensures c.row-2.ensures c.intersection-goals.ensures c.union.ensures
