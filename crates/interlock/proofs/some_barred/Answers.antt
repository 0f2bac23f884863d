-- `some_barred`.
use Prim.Native.Nat.{ℕ}
use mathlib.Core.Path.{sym, ◌∙◌, ap}
use mathlib.Core.Bool.{not}
use lib.Dec.{eqb}
use native.Mathlib.Omega.{arith}
use Rattle.finite.proofs.Bounded.{any_intro}
use Rattle.finite.proofs.Loops.{any_start, any_turn, any_end}
use Rattle.interlock.specs.Bars.{some_barred}
use Rattle.interlock.proofs.some_barred.Goals as goal

pub loop-i-init : goal.loop-i-init
loop-i-init c = (omega arith, any_start _)

pub part-requires : goal.part-requires
part-requires c =
    omega (arith, c.parts-n.ensures)

pub returns-then-not-is_empty : goal.returns-then-not-is_empty
unfolding some_barred
returns-then-not-is_empty c =
    let met = ap not (c.is_empty.ensures ∙ ap (λ (x : ℕ). eqb x 0) c.part.ensures) in
    sym (any_intro _ _ c.loop-i.i (omega (arith, c.parts-n.ensures)) (sym met ∙ c.if-not-is_empty.true-raw))

pub loop-i-preserved : goal.loop-i-preserved
loop-i-preserved c =
    let met = ap not (c.is_empty.ensures ∙ ap (λ (x : ℕ). eqb x 0) c.part.ensures) in
    (omega (arith, c.parts-n.ensures), any_turn c.loop-i.i _ c.loop-i.invariant.1 (sym met ∙ c.if-not-is_empty.false-raw))

pub returns : goal.returns
unfolding some_barred
returns c =
    sym (any_end _ c.loop-i.i _ c.loop-i.invariant.0 (omega (arith, c.parts-n.ensures)) c.loop-i.invariant.1)
