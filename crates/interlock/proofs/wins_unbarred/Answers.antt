-- `wins_unbarred`.
use native.Mathlib.Omega.{arith}
use mathlib.Core.Path.{refl}
use Rattle.game.proofs.Laws.{accepted_fits}
use Rattle.region.proofs.Board.{fits_on, scratch_on, prepared_on}
use Rattle.interlock.proofs.Answers.{prepared_rest}
use Rattle.interlock.proofs.wins_unbarred.Goals as goal

pub lay-z-requires : goal.lay-z-requires
lay-z-requires c = refl

pub prepare-x-requires : goal.prepare-x-requires
prepare-x-requires c =
    let p = c.requires in
    let F = accepted_fits _ p.0 in
    (refl, (fits_on c.lay-z.ensures F, scratch_on c.lay-z.ensures (omega (arith, p.1, F.input.most, F.output.most))))

pub system_wins-r-requires : goal.system_wins-r-requires
system_wins-r-requires c =
    (prepared_on c.lay-z.ensures c.prepare-x.ensures).ready

pub returns : goal.returns
returns c = (
  c.system_wins-r.ensures,
  prepared_rest _ (accepted_fits _ c.requires.0) _ _ _ (prepared_on c.lay-z.ensures c.prepare-x.ensures).kept.rest
      c.clear.ensures,
)
