-- `explain_position`.
use mathlib.Core.Path.{refl}
use Rattle.region.proofs.Board.{fits_on, scratch_on, prepared_on}
use Rattle.scratch.proofs.Cleared.{cleared_kept}
use borrow.Author.Rules.{rules}
use Rattle.explain.proofs.explain_position.Goals as goal

pub lay-z-requires : goal.lay-z-requires
lay-z-requires c = refl

pub prepare-x-requires : goal.prepare-x-requires
prepare-x-requires c =
    (refl, search (rules, fits_on, scratch_on))

pub find-r-requires : goal.find-r-requires
find-r-requires c =
    let p = c.requires in
    record { ready = (prepared_on c.lay-z.ensures c.prepare-x.ensures).ready; input = p.2; output = p.3 }

pub returns : goal.returns
returns c =
    (cleared_kept _ _ _ _ (prepared_on c.lay-z.ensures c.prepare-x.ensures).kept c.length.ensures c.clear.ensures, c.find-r.ensures)
