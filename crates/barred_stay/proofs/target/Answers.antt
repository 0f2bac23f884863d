-- `target`.
use Rattle.sets.specs.Words.{sets_in}
use Rattle.barred_stay.proofs.Rows.{target_told}
use Rattle.barred_stay.proofs.target.Goals as goal

pub returns : goal.returns
returns c =
    target_told (sets_in c.args.s.now) c.args.j.0 _ _ _ _ _ _ _ _ c.row.ensures c.row-2.ensures c.row-3.ensures c.member-on.ensures
    c.intersection-goals.ensures
    c.union_if-others.ensures c.union.ensures
