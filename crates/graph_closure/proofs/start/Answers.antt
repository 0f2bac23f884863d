-- `start` writes the rows one after the other.
use Prim.Native.Nat.{ℕ}
use mathlib.Core.Path.{◌≡◌, refl, sym, ◌∙◌, ap}
use mathlib.Core.Bool.{◌&&◌}
use mathlib.Core.List.{List}
use lib.Dec.{ltb}
use lib.ListN.{get_or}
use Rattle.bits.specs.Member.{has}
use Rattle.sets.specs.Words.{bits_of, sets_in}
use Rattle.sets.proofs.Rows.{count_same, sets_long}
use Rattle.graph_closure.specs.Sweep.{first_rows}
use Rattle.graphs.proofs.Front.{rows_none, rows_next}
use Rattle.graph_closure.proofs.FirstRows.{first_word}
use native.Mathlib.Omega.{arith}
use Rattle.graph_closure.proofs.start.Goals as goal

pub loop-s-init : goal.loop-s-init
loop-s-init c = (omega arith, refl, λ h G. rows_none _ _ _)

pub put-requires : goal.put-requires
put-requires c =
    omega (arith, count_same c.loop-s.rows c.args.rows.now c.loop-s.invariant.1)

pub loop-s-preserved : goal.loop-s-preserved
loop-s-preserved c =
    let l = c.args.rows.now in (
      omega arith,
      c.put.auto.l ∙ c.loop-s.invariant.1,
      λ h G. c.put.ensures ∙ rows_next _ _ _ c.loop-s.s (omega (arith, sets_long l)) (c.loop-s.invariant.2 h G)
          (first_word h c.loop-s.s _ _ _ (omega (arith, G.states)) (λ t. c.below-states.ensures t ∙ ap (ltb t) (sym G.states))
          (λ t. c.intersection.ensures t ∙ ap (λ (k : ℕ). has k t && has (bits_of c.below-states.result) t)
          (c.row-next.ensures ∙ ap (λ (k : List ℕ). get_or (sets_in k) c.loop-s.s 0) (sym G.moves)))
          c.insert.ensures),
    )

pub shape_of-rows : goal.shape_of-rows
shape_of-rows c = c.loop-s.invariant.1

pub returns : goal.returns
unfolding first_rows
returns c =
    λ h G. (let e : c.loop-s.s ≡ h.states = omega (arith, G.states) in rw e at (c.loop-s.invariant.2 h G))
