-- `settled`: a run has a home in reach where its first input has one.
use Prim.Native.Nat.{ℕ}
use mathlib.Core.Path.{ap}
use Rattle.bits.specs.Member.{sets_meet}
use Rattle.sets.specs.Words.{capacity, bits_of, sets_in}
use Rattle.scratch.specs.Stored.{row_at}
use Rattle.region_runs.proofs.Runs.{spread_part, spread_all}
use Rattle.controller_rows.specs.Writes.{settles_at}
use Rattle.controller_opening.proofs.unsettled.settled.Goals as goal

pub spread-requires : goal.spread-requires
unfolding settles_at
spread-requires c =
    (c.requires.0, c.requires.2.below, spread_part _ _ _ _ c.settling-x.ensures)

pub returns : goal.returns
unfolding settles_at
returns c =
    let a = c.args in
    spread_all _ _ _ _ _ c.requires.2 (λ j. sets_meet capacity (row_at (sets_in a.s.now) a.n j) (bits_of a.reach.0))
    (λ i j q. ap (λ (k : ℕ). sets_meet capacity k (bits_of a.reach.0)) q) c.settling-x.ensures c.spread.ensures
