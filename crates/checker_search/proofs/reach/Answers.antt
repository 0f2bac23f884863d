-- `reach` meets its contract.
use Rattle.checker_search.proofs.Grow.{reach_fits, reach_end}
use Rattle.checker_search.proofs.reach.Goals as goal

pub spread-first-requires : goal.spread-first-requires
spread-first-requires c = (
  c.requires.0,
  reach_fits _ _ _ _ _ c.requires.0.places c.requires.1
      c.unmark.ensures,
  c.requires.3,
)

pub returns : goal.returns
returns c =
    reach_end _ _ _ _ _ _ _ _ _ _ _ _ _ _ _ _ _ c.unmark.ensures
    c.spread-first.ensures c.exhaust.ensures
