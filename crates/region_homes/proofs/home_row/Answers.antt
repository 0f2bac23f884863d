-- `home_row`. Invariant: y are the members of `among` that are won with the members of x, but those of `rest`.
use Prim.Native.Nat.{ℕ, ◌<◌}
use mathlib.Core.Path.{◌≡◌, ◌∙◌, ap}
use mathlib.Core.Bool.{Bool}
use Rattle.bits.specs.Member.{has, pack}
use Rattle.bits.proofs.Membership.{has_pack_below}
use Rattle.scratch.proofs.Narrow.{passes, narrowed_below, narrowed_next, narrowed_end}
use Rattle.region_homes.specs.Homes.{safe_one, safe_at, home_at}
use Rattle.region_homes.proofs.home_row.Goals as goal

-- what the set of outputs that are won says of each
won-at : (m w : ℕ) (p : ℕ → Bool) → w ≡ pack m p → (o : ℕ) → o < m → has w o ≡ p o
won-at m w p e o b = ap (λ (v : ℕ). has v o) e ∙ has_pack_below m p o b

pub won_next-k-requires : goal.won_next-k-requires
won_next-k-requires c =
    let w = c.in-Some.ensures.steps in
    let p = c.requires in
    (p.0, p.1, narrowed_below _ _ _ _ _ p.3 p.0 p.4 _ _ c.loop-j.invariant.1 w.some _ w.lowest, p.2, c.loop-j.invariant.0)

pub loop-j-preserved : goal.loop-j-preserved
loop-j-preserved c =
    let w = c.in-Some.ensures.steps in
    let p = c.requires in (
      c.won_next-k.ensures.0,
      narrowed_next _ _ _ _ _ p.3 p.0 p.4 _ _ c.loop-j.invariant.1 w.some _ w.lowest _ w.others _ _
          (won-at _ _ _ c.won_next-k.ensures.1) c.intersection-y.ensures,
    )

pub returns : goal.returns
unfolding passes home_at safe_at safe_one
returns c =
    let p = c.requires in
    narrowed_end _ _ _ _ _ p.3 p.0 p.4 _ _ c.loop-j.invariant.1 c.in-None.ensures.steps.0
